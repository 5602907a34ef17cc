pub mod LastFormal
