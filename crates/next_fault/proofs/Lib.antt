mod Cycles
