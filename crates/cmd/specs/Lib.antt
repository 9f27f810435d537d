pub mod Pack
pub mod PackLaws
pub mod Laws
pub mod Examples
