mod SeatPairs
