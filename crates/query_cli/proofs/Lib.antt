mod Numerals
mod Options
