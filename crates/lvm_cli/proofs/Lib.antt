mod OpenedDisks
