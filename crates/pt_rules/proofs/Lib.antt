-- Lines: a table decides as the first of its lines that applies says
mod Lines
-- CallLines: the verdict of a call is what its rule says
mod CallLines
