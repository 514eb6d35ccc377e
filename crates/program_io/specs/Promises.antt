-- What can be promised of calls of the system.

-- nothing: every program meets it
abbrev pub NothingPromised : Type 0
NothingPromised = Unit {0}
