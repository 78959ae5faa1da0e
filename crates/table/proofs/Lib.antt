mod Bytes
mod Places
mod Rows
mod Columns
mod Lines
mod Orders
