pub mod FirstRefusals
