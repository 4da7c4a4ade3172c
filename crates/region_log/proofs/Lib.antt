mod FirstUnsynced
