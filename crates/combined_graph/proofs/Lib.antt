pub mod Arcs
pub mod FirstFault
pub mod FourFields
pub mod RecordsLeft
pub mod UnitNames
pub mod MixFacts
