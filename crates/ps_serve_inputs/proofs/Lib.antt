mod Low
mod Stages
