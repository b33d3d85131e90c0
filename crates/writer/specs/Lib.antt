-- What a writer leaves in a lent slice: bytes, numbers and hex data of document 01, "Running" and "The listing".
pub mod Hex
pub mod Put
