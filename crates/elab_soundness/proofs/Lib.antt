mod spelling
mod valid
