mod Ranking
mod Tabling
mod Slots
mod Searching
