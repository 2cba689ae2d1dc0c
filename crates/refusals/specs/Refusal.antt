-- The numbers and the names of refusals.
use Rattle.std.specs.Prelude.{ℕ, List, codes}
use Rattle.refusals.specs.declared.refusal.Refusal.{Refusal}
use Rattle.refusals.specs.declared.refusal.Refusal.TheVariants.{TooLong, Syntax, Version, MissingKey, WrongType, OutOfRange, BadName, DoubledName, UnknownKind, BadRows, UnknownPlug, TooManyRows, NoJob, UnknownEntry, TooManyTurns, TooMuchWork, NotSure, NoFitness, BadBoard, DoubledEdge, BadCheckpoint, BadCertificate, NotBuilt, NotVector}

-- the number by which a user knows a refusal, from 1 to 24
abbrev pub number_of : Refusal → ℕ
number_of (TooLong _) = 1
number_of Syntax = 2
number_of Version = 3
number_of (MissingKey _) = 4
number_of (WrongType _) = 5
number_of (OutOfRange _) = 6
number_of (BadName _) = 7
number_of (DoubledName _) = 8
number_of (UnknownKind _) = 9
number_of (BadRows _ _) = 10
number_of (UnknownPlug _) = 11
number_of (TooManyRows _) = 12
number_of NoJob = 13
number_of (UnknownEntry _) = 14
number_of TooManyTurns = 15
number_of TooMuchWork = 16
number_of (NotSure _) = 17
number_of NoFitness = 18
number_of BadBoard = 19
number_of (DoubledEdge _) = 20
number_of (BadCheckpoint _ _) = 21
number_of (BadCertificate _) = 22
number_of NotBuilt = 23
number_of (NotVector _) = 24

-- the name of a refusal: that of its variant
abbrev pub name_of : Refusal → List ℕ
name_of (TooLong _) = codes "TooLong"
name_of Syntax = codes "Syntax"
name_of Version = codes "Version"
name_of (MissingKey _) = codes "MissingKey"
name_of (WrongType _) = codes "WrongType"
name_of (OutOfRange _) = codes "OutOfRange"
name_of (BadName _) = codes "BadName"
name_of (DoubledName _) = codes "DoubledName"
name_of (UnknownKind _) = codes "UnknownKind"
name_of (BadRows _ _) = codes "BadRows"
name_of (UnknownPlug _) = codes "UnknownPlug"
name_of (TooManyRows _) = codes "TooManyRows"
name_of NoJob = codes "NoJob"
name_of (UnknownEntry _) = codes "UnknownEntry"
name_of TooManyTurns = codes "TooManyTurns"
name_of TooMuchWork = codes "TooMuchWork"
name_of (NotSure _) = codes "NotSure"
name_of NoFitness = codes "NoFitness"
name_of BadBoard = codes "BadBoard"
name_of (DoubledEdge _) = codes "DoubledEdge"
name_of (BadCheckpoint _ _) = codes "BadCheckpoint"
name_of (BadCertificate _) = codes "BadCertificate"
name_of NotBuilt = codes "NotBuilt"
name_of (NotVector _) = codes "NotVector"
