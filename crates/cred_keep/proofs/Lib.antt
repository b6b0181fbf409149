mod Copied
mod NoneBad
mod NotTaken
mod OnBasis
