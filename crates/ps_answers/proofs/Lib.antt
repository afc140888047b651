mod Answering
mod Feeds
mod Fillings
mod Givings
mod Judging
mod Pieces
