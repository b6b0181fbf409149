-- The definitions that the contracts of scrypt cite.
pub mod Xor
pub mod Salsa
pub mod Diagonals
pub mod Mixing
pub mod Table
pub mod Scratches
pub mod Hmac
pub mod Keyed
pub mod Pbkdf2
pub mod Params
pub mod Errors
pub mod Scrypt
pub mod Pieces
pub mod PieceWork
