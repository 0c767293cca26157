-- Begun: texts that a writer took in part
mod Begun
-- Looks: looks at a clock
mod Looks
