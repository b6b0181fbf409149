mod Fits
mod Imported
mod Reading
mod Records
pub mod Heeding
mod Becoming
pub mod Tallies
mod Renaming
mod Misread
pub mod Printed
mod BeforeSalt
