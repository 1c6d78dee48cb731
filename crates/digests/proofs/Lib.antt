mod Joins
mod Lays
mod Steps
mod Words
