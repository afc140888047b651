mod Rows
mod Taking
