-- Definitions that contracts cite: the letters of base64, and the six bits that each stands for.
pub mod Letters
pub mod Sextets
