pub mod WindowLaws
pub mod Laws
