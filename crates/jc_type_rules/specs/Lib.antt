pub mod Depending
