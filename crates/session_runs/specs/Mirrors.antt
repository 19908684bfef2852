-- How the code keeps a run that is on its way, and a play.
pub mod Progressing
pub mod Playing
