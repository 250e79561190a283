mod Flushes
