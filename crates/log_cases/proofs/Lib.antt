pub mod Thousand
