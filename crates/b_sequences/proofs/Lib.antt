mod Numbered
mod Steps
mod JoinedLists
