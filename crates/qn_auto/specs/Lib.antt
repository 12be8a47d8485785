pub mod Automaton
pub mod Building
pub mod Flux
pub mod LinkOrder
pub mod SumAutomaton
pub mod Terms
