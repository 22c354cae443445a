-- the value of each limit, which the definitions take from the code
mod Limits
-- the name that an argument is
mod ClipName
-- what the command of a word takes
mod CommandRows
