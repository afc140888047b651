mod Calls
mod ArrayItems
mod Floats
mod OnRows
mod Parts
mod Searches
mod Starred
