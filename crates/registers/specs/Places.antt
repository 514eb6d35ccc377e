-- The registers by name: each stands for its place in document 01's order, counted from 0.
use Rattle.std.specs.Prelude.{ℕ}

abbrev pub H : ℕ
H = 0

abbrev pub DO : ℕ
DO = 1

abbrev pub PD : ℕ
PD = 2

abbrev pub «V» : ℕ
«V» = 3

abbrev pub D : ℕ
D = 4

abbrev pub E : ℕ
E = 5

abbrev pub MX : ℕ
MX = 6

abbrev pub MY : ℕ
MY = 7

abbrev pub PS : ℕ
PS = 8

abbrev pub X : ℕ
X = 9

abbrev pub Y : ℕ
Y = 10

abbrev pub BS : ℕ
BS = 11

abbrev pub BSH : ℕ
BSH = 12

abbrev pub DP : ℕ
DP = 13

abbrev pub PRS : ℕ
PRS = 14

abbrev pub HVE : ℕ
HVE = 15

abbrev pub S : ℕ
S = 16

abbrev pub TC : ℕ
TC = 17

abbrev pub SM : ℕ
SM = 18

abbrev pub VOP : ℕ
VOP = 19

abbrev pub GR : ℕ
GR = 20

abbrev pub GS0 : ℕ
GS0 = 21

abbrev pub GS1 : ℕ
GS1 = 22

abbrev pub GS2 : ℕ
GS2 = 23

abbrev pub GS3 : ℕ
GS3 = 24

abbrev pub DOF : ℕ
DOF = 25

abbrev pub DM : ℕ
DM = 26

abbrev pub EC : ℕ
EC = 27

abbrev pub OC : ℕ
OC = 28
