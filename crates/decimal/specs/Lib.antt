pub mod Digits
pub mod DigitLaws
pub mod Ranges
pub mod Read
pub mod ReadLaws
pub mod NumLaw
pub mod NumSound
pub mod Cases
