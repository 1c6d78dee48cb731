mod Lengths
mod Paying
mod Rooting
