mod NewDisks
