mod Recoveries
