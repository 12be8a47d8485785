mod Places
mod Entries
