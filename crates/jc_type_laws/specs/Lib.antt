pub mod TypesDifferInTokens
