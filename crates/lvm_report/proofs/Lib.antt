mod FreeSums
mod GroupLine
mod MarkedVolumes
mod OneLine
mod OneReport
mod PvNumbers
mod Rows
mod VolumeLines
