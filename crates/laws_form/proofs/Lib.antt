pub mod FirstBytes
pub mod CycleSaid
pub mod SoundLines
pub mod OneLine
pub mod OneText
pub mod FormFacts
pub mod RunFacts
