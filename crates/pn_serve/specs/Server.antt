-- Served streams: the reports of their threads, the rounds, and which fault is answered.
pub mod Events
pub mod Messages
pub mod Reports
pub mod Rounds
pub mod Served
pub mod Publishers
