mod Terminals
mod Unspread
