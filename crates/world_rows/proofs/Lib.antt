mod Lying
