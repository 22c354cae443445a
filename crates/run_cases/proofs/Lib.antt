-- `ask_under`, `begin`, `make_step`: what is so of a run by the code of a program
pub mod RunsOfPrograms
