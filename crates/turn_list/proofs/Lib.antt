mod AtPlaces
mod Meetings
