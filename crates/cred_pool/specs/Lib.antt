-- Each type that is a part names its own relations (src/part.rt).
pub mod Crews
