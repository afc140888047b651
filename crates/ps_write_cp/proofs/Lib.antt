mod Heads
mod Rising
mod Covering
