pub mod Twisted
