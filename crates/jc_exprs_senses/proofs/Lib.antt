mod Sensing
