mod Echoing
mod Closing
