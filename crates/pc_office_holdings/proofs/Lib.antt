pub mod Entered
pub mod FirstTargets
pub mod ForNobody
pub mod FreeNames
pub mod Noted
pub mod Posts
pub mod Standings
