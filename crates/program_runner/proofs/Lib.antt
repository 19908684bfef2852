mod Entries
mod Filling
mod Gives
mod Ends
mod Played
mod Texts
