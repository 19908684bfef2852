mod Asked
mod Compared
mod Covering
