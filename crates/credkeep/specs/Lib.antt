-- Definitions that contracts cite: what a service of tagged lines makes of a database.
pub mod Service
