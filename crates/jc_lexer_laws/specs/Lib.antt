pub mod TokensAreTold
