pub mod Combiners
pub mod Members
pub mod LabelFaults
pub mod Networks
pub mod NetworkTexts
pub mod TensorsReadBack
pub mod NetworksReadBack
pub mod WorkedDocument
