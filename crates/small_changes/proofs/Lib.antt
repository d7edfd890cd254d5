mod Storing
