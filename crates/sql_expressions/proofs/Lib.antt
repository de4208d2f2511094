mod Alone
pub mod Deeper
pub mod DepthLaws
pub mod FirstOperands
pub mod LevelLaws
pub mod LevelLimits
pub mod LevelPlaces
pub mod Limited
pub mod ListLaws
pub mod ParseLaws
pub mod Places
pub mod RoomLaws
pub mod RuleLaws
pub mod RuleLimits
pub mod TextWords
pub mod Walk
pub mod WordLaws
pub mod WordLimits
